pub mod Files
pub mod Late
pub mod Unfed
pub mod Inside
