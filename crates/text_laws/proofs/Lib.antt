pub mod UserTexts
pub mod Blocks
pub mod ModelPieces
pub mod ModelCuts
pub mod ModelReads
pub mod Finished
pub mod ModelTexts
pub mod PrintedModels
