mod Places
pub mod Ranges
mod Ranks
mod Depths
mod LeafSums
pub mod Rights
