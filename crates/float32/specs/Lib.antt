pub mod Value
pub mod Order
pub mod Remainder
pub mod Powers
pub mod Smoothstep
pub mod Constants
