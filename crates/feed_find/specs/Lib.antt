pub mod Choosing
pub mod Found
pub mod Added
pub mod Views
pub mod Filed
