pub mod CompactIsPlain
pub mod BlockRaised
pub mod BlockWalk
