pub mod Change
pub mod Regrowth
