pub mod Alike
pub mod Kept
pub mod Levels
pub mod Rows
pub mod Sums
