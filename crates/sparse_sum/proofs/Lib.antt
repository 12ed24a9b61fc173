mod Firsts
mod Fewness
mod Heads
mod Lefts
pub mod Nexts
mod Pairs
pub mod Placed
mod Searches
mod Steps
pub mod Totals
mod Weights
