pub mod Example
pub mod Inside
