pub mod Executions
pub mod Running
