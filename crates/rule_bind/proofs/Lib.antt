pub mod InTurn
mod InSets
pub mod FormulaFacts
pub mod Got
pub mod OwnFacts
