pub mod Refusal
pub mod Reply
pub mod Written
