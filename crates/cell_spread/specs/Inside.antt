-- What the code reads and keeps. No public clause cites it.
pub mod Counts
pub mod Meets
pub mod Remainders
