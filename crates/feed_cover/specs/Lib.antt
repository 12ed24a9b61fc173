pub mod Views
pub mod Tests
pub mod Asked
pub mod Answers
