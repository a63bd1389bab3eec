pub mod Halved
pub mod Runs
pub mod Walk
pub mod Bins
