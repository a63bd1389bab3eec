pub mod Stages
pub mod Premises
