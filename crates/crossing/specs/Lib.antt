pub mod Given
pub mod MaskSettings
pub mod Settings
