pub mod Depths
pub mod GrowthLemmas
pub mod LevelFacts
pub mod LoopLemmas
pub mod Maxima
pub mod RankLemmas
pub mod Tests
pub mod Walks
