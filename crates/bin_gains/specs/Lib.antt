pub mod Gains
pub mod Shared
