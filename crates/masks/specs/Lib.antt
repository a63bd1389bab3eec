pub mod Gates
pub mod Manual
pub mod Counted
