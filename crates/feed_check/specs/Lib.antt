pub mod Sizes
pub mod Verdict
pub mod Inside
