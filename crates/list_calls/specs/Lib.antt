pub mod Advanced
pub mod Prepared
