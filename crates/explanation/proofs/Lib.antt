mod Takes
pub mod Tokens
mod Begins
mod Suffixes
mod LineParts
mod StatementTable
mod Onward
