pub mod CellNames
pub mod Inside
