pub mod ListFacts
pub mod RankFacts
pub mod ListedFacts
pub mod PairFacts
pub mod LeafCellFacts
pub mod BreakFacts
pub mod OrderFacts
