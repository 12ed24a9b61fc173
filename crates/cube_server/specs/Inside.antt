-- What the code's private functions promise one another. No public clause cites it.
pub mod Ending
pub mod Explaining
