-- The readers of the code, and what its private functions answer.
pub mod Reading
pub mod Views
pub mod Sections
pub mod Later
