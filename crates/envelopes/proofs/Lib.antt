pub mod Silence
pub mod Alpha
pub mod Levels
pub mod Bank
pub mod Rest
pub mod Words
pub mod Steps
