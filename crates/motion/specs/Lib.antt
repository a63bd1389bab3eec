pub mod Shapes
pub mod Field
pub mod Settled
