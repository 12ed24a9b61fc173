pub mod Pushed
mod Noted
pub mod Pairs
