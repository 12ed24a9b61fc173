mod ArgumentFolds
mod Parts
mod PartsBound
mod Around
mod Cubes
mod NamesGiven
mod Tables
mod Moves
mod AlikeFacts
mod MapsMade
mod NumbersMade
mod KinFacts
mod LeafFacts
mod FamilyFacts
mod BelowFacts
pub mod ArgumentFacts
