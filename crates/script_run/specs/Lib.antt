pub mod Setting
pub mod Meaning
pub mod Load
pub mod Inside
