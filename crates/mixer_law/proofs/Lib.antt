pub mod Counting
pub mod Lines
pub mod Entries
pub mod Runs
pub mod Named
pub mod InTime
pub mod Counted
pub mod Instances
