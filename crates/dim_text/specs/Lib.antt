pub mod Progress
pub mod Statement
pub mod Building
pub mod Answers
pub mod Writable
pub mod Spelled
pub mod Printed
pub mod Readers
