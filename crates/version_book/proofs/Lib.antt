pub mod Lists
mod Keeps
mod Hands
mod Splits
mod Joins
mod Ends
