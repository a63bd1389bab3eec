pub mod Mask
pub mod Centered
