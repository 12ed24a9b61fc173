pub mod Pass
pub mod Course
pub mod Outside
pub mod Reading
pub mod Halting
pub mod Inside
