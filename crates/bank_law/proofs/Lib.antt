pub mod Entries
pub mod Reading
pub mod Runs
pub mod Audible
pub mod Instances
pub mod Parameters
pub mod TwoReads
