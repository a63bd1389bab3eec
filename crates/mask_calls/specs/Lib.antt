pub mod LentStereo
