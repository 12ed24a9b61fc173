pub mod PlanWords
pub mod PlanFacts
pub mod ScriptsNamed
mod Fronts
