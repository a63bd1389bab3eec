pub mod StagedField
pub mod Layered
