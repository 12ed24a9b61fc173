pub mod Answers
pub mod Readers
