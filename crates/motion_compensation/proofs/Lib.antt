pub mod Samples
pub mod Compensated
pub mod ZeroSigns
