pub mod Named
pub mod Shapes
pub mod Coefs
mod Components
pub mod Arguments
pub mod Statements
mod GoverningFacts
mod OpenFacts
pub mod Filing
pub mod LeafCells
