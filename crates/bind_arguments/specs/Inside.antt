pub mod Reading
pub mod Within
pub mod Moves
pub mod Kin
pub mod Families
