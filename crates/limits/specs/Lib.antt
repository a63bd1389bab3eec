pub mod Found
pub mod Lengths
pub mod Limits
