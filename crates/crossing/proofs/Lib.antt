pub mod Configs
pub mod Replies
pub mod Shapes
