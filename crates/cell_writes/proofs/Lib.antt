pub mod InOrder
pub mod Found
mod Runs
