pub mod Sound
pub mod Stored
