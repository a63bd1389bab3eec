pub mod FloatLists
pub mod Numbers
