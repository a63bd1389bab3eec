pub mod Maxima
pub mod Highest
pub mod Grouped
pub mod RowJoined
pub mod Reached
