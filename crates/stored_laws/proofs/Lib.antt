pub mod Sums
pub mod Stored
