pub mod Ranks
pub mod LeafCells
pub mod ByKind
pub mod Orders
pub mod Lags
pub mod Inside
