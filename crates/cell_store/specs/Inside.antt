pub mod Order
pub mod Levels
pub mod Trees
pub mod Entries
pub mod Stores
pub mod Sets
