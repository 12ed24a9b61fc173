pub mod Rising
mod InOrder
mod Runs
mod Edits
mod LastWrites
mod Parts
mod Levels
mod NextCells
pub mod Numbers
mod Stores
mod Sets
