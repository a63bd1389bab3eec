pub mod Numbers
pub mod Law
pub mod TwoCalls
