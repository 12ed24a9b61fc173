pub mod Kept
pub mod Parts
pub mod Words
pub mod Files
