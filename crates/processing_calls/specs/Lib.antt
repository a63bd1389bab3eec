pub mod Processing
pub mod DualWindow
