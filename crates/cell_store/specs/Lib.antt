pub mod Cells
pub mod Entries
pub mod StoreLimit
pub mod Inside
