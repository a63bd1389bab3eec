pub mod Pitch
pub mod Tune
