pub mod Finding
pub mod Users
pub mod Cores
pub mod Pins
pub mod Steps
