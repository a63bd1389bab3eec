pub mod Ready
pub mod Exp2Staged
