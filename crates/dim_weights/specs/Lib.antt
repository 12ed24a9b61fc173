pub mod Coefficients
pub mod Refusal
pub mod Table
pub mod Inside
