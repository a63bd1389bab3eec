pub mod Least
pub mod Row
pub mod Ends
