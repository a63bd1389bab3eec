pub mod Motion
