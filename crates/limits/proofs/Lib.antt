pub mod Searches
pub mod Pairs
pub mod Halves
pub mod Accepted
pub mod Sizes
