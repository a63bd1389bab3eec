pub mod Compensation
pub mod Octaves
