pub mod LeafCounts
pub mod References
pub mod Verdicts
pub mod Products
