pub mod Exp2
pub mod Log2
