pub mod TreeFolds
pub mod Nodes
