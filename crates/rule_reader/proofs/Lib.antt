pub mod BracketExact
pub mod AreaExact
pub mod PrimaryExact
pub mod FormulaExact
pub mod FeederExact
pub mod WordFirst
pub mod StatementExact
pub mod RulesExact
mod Fits
mod TokenCounts
mod TextSizes
mod TextCounts
mod TextLimits
