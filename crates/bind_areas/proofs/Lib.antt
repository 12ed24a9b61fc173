pub mod Meanings
pub mod EntryFacts
pub mod ElementFacts
pub mod ValidFacts
