pub mod Most
pub mod Premises
