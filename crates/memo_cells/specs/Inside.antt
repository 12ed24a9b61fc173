-- The rule of a memo's words, and what a step on them tells. No public clause cites it.
pub mod Rule
pub mod Plays
