pub mod Emphasis
pub mod Gated
pub mod Points
pub mod Curve
pub mod Counted
pub mod StagedCurve
