pub mod Versions
pub mod LimitAnswers
pub mod Inside
