pub mod Wide
pub mod FarSteps
pub mod NearSteps
