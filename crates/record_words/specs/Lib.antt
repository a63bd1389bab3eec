pub mod Fields
pub mod Floats
