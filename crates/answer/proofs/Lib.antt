pub mod Replies
pub mod Tests
