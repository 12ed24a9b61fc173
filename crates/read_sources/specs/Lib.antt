pub mod Ways
pub mod Sources
pub mod Giving
pub mod Parts
pub mod Unlagged
pub mod Gathering
