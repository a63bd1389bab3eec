pub mod Stepped
pub mod StagedWaves
