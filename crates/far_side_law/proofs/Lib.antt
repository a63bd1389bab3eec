pub mod FarVoices
pub mod NearVoices
pub mod Same
pub mod Equal
pub mod Law
pub mod TwoCalls
pub mod Joined
pub mod Instances
