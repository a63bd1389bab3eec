pub mod Calls
pub mod Waits
pub mod Mixers
pub mod Promises
