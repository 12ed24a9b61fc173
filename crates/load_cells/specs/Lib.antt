pub mod Found
pub mod Loads
pub mod Members
pub mod Names
