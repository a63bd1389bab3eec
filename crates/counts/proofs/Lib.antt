pub mod Whole
pub mod Counted
pub mod CountBounds
pub mod InMillionths
pub mod BeyondFloor
