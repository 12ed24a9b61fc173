pub mod Bare
pub mod Notes
pub mod Inside
