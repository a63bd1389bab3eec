pub mod Sides
pub mod Openness
pub mod Scene
pub mod Raising
