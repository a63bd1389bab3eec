pub mod Partials
pub mod Listed
