-- What the functions that judge promise one another.
pub mod Judging
pub mod Kept
pub mod RuleFiles
