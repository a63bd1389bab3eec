pub mod Law
pub mod TwoCalls
