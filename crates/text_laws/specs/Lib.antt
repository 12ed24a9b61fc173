pub mod UserAnswers
pub mod ModelAnswers
pub mod PrintedModels
