pub mod Members
pub mod Memory
pub mod Names
