pub mod Levels
pub mod Language
pub mod Expression
pub mod Limits
pub mod Spelled
pub mod Readers
