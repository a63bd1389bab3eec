pub mod Table
pub mod Rules
pub mod Sine
pub mod Rows
