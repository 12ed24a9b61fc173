-- The readers of the code.
pub mod Reading
pub mod StatementReading
pub mod Nests
pub mod TextReading
