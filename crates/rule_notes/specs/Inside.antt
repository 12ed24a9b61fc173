pub mod Areas
pub mod Finals
pub mod Reached
pub mod Named
pub mod Views
pub mod Listed
