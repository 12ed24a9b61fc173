pub mod Pointwise
pub mod Gathering
pub mod Adding
pub mod Choices
pub mod Sameness
pub mod Counting
pub mod Filing
