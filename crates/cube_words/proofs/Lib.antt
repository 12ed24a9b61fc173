pub mod Classes
pub mod OfClap
pub mod OfMatches
pub mod Outcomes
pub mod Sizes
