pub mod Accepted
pub mod PitchNumbers
pub mod Made
pub mod Gathered
pub mod Voices
pub mod F32
pub mod Levels
