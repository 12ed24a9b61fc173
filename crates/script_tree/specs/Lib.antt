pub mod Expression
pub mod Statement
pub mod ScriptText
pub mod Counting
