pub mod Gains
pub mod Level
