-- The rule of a book's words and of its passes, and what a step tells. No public clause cites it.
pub mod Rule
pub mod Plays
pub mod Turns
