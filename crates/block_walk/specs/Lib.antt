pub mod Compact
pub mod Premises
