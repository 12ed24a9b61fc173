pub mod Nodes
pub mod Arrows
pub mod Ranked
pub mod ByDimension
