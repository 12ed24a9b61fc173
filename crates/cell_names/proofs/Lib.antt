pub mod NameFacts
pub mod Plain
