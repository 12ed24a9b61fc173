pub mod Axes
pub mod Cells
pub mod Layout
pub mod Inside
pub mod Radix
pub mod Refusal
