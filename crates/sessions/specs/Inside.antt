-- What holds while sessions are opened, run and brought together. No public clause cites it.
pub mod AllSessions
pub mod Gathered
pub mod Decided
