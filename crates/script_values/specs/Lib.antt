pub mod Cells
pub mod Elements
pub mod Scene
pub mod Characters
pub mod Padding
pub mod Values
pub mod Inside
