pub mod Refusals
pub mod Models
pub mod Rules
pub mod Scripts
pub mod ModelFiles
pub mod Users
pub mod Loads
pub mod Inside
