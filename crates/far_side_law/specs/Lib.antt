pub mod Sides
pub mod FarSide
pub mod Joined
