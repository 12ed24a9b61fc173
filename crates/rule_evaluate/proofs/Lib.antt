pub mod Parts
pub mod FormulaWeights
pub mod CourseFacts
pub mod SceneFacts
pub mod EndFacts
pub mod TableReadings
pub mod AskedFacts
