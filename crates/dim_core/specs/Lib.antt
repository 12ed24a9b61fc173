pub mod Draft
pub mod Outline
pub mod Refusal
pub mod Written
pub mod Inside
