-- What the functions that read promise one another.
pub mod Steps
pub mod Kept
