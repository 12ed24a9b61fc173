-- What the code reads and keeps. No public clause cites it.
pub mod Depths
pub mod Plain
