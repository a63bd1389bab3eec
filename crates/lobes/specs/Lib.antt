pub mod Grid
pub mod Pan
pub mod Tone
pub mod Centers
pub mod Distance
pub mod Peak
pub mod Lobe
