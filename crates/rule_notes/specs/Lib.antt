pub mod Reached
pub mod Named
pub mod Noted
pub mod Inside
