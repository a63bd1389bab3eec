pub mod Held
pub mod RowRaised
pub mod MostOpen
