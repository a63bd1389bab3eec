pub mod DualWindow
