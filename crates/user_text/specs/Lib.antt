pub mod FileSigns
pub mod UserText
pub mod Counting
pub mod Answers
pub mod Readers
pub mod Rows
pub mod Jobs
pub mod Inside
