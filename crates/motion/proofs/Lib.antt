pub mod Between
pub mod Openings
pub mod Gains
pub mod Accepted
