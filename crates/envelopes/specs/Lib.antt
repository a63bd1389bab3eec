pub mod Envelope
pub mod Words
