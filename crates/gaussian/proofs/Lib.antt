pub mod Rule
pub mod Fraction
pub mod Entries
pub mod InUnit
pub mod Index
