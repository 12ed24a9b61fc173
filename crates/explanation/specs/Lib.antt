pub mod Places
pub mod Statements
pub mod Operands
pub mod Written
pub mod Limits
pub mod Explanation
pub mod Cursor
pub mod Tables
