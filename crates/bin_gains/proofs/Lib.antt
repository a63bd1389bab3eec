pub mod RowCeilings
pub mod Rising
