pub mod Banked
