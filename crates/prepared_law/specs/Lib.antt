pub mod Calls
pub mod Law
