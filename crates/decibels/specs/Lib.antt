pub mod Gain
