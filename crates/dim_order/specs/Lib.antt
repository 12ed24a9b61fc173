pub mod Levels
pub mod Loops
pub mod Members
pub mod Inside
