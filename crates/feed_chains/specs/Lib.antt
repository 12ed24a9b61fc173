pub mod Inside
pub mod Led
