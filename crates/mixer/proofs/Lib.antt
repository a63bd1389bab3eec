pub mod Searches
pub mod Answers
