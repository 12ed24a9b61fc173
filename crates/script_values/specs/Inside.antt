pub mod Letters
pub mod Bytewise
