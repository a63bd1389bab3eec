pub mod Frames
pub mod GateAnswers
