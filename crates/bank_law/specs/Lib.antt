pub mod Calls
pub mod Present
pub mod Banks
pub mod Promises
