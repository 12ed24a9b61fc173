pub mod Cells
pub mod Fed
pub mod Added
pub mod Faults
pub mod Writes
mod Changed
