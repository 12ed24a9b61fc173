pub mod Counts
mod GainFacts
mod ChainFacts
mod LeafFacts
mod DenseFacts
pub mod FedFacts
mod LeafSteps
mod RowFacts
mod FollowSteps
mod Fresh
mod StandFacts
mod OpenFacts
mod RiskFacts
mod ChangeFacts
