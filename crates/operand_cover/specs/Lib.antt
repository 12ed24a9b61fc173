pub mod Operands
pub mod Cover
