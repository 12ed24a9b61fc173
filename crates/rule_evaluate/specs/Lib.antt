pub mod Readings
pub mod Course
pub mod Known
pub mod Inside
