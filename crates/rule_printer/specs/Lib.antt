pub mod Printed
pub mod Spelled
pub mod Writable
pub mod Inside
