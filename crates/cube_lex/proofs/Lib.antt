mod Runs
pub mod Numbers
mod Fronts
pub mod Quotes
mod Insides
mod SignTable
mod Sorts
mod Readings
pub mod Unique
pub mod WrittenTexts
pub mod Wholes
pub mod WellFormed
pub mod Spaced
pub mod Adding
pub mod Aheads
pub mod Steps
pub mod Counting
pub mod Listing
