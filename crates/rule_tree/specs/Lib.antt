pub mod Formula
pub mod RuleText
pub mod Counting
pub mod Sizes
