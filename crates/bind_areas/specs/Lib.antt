pub mod Meaning
pub mod Areas
