pub mod ThreeOnes
pub mod Rows
