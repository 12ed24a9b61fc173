pub mod Growth
pub mod Ranks
