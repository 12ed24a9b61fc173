pub mod Statements
pub mod Ranks
pub mod Levels
pub mod Below
pub mod Formed
pub mod Placed
