pub mod Table
pub mod Rule
pub mod Bell
