pub mod Spacing
pub mod Entries
pub mod Accepted
pub mod Logged
