pub mod Bounds
pub mod Sound
pub mod States
pub mod Trails
pub mod Ways
