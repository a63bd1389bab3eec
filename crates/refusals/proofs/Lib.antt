pub mod MaskAccepted
pub mod MaskAnswers
pub mod Parameters
pub mod RealScene
pub mod Heard
