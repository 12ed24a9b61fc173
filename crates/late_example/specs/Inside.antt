pub mod Counting
pub mod Narrowing
pub mod Shown
pub mod Answers
