-- The readers of the code.
pub mod Reading
