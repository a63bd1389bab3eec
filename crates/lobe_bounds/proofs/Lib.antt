pub mod Columns
pub mod Nearest
pub mod Bounded
