pub mod Crossed
