pub mod Begun
pub mod Changes
pub mod Chains
pub mod Growing
pub mod NumbersKept
pub mod Passed
pub mod Turns
