pub mod InTune
pub mod Range
