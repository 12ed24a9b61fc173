pub mod Runs
pub mod Histories
pub mod Alone
pub mod OneUser
