pub mod FormulaFolds
pub mod WellFormed
pub mod Ordered
pub mod Covered
pub mod Values
