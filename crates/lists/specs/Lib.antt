pub mod Inside
pub mod Keys
