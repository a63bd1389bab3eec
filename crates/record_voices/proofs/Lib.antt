pub mod Voices
pub mod Steps
