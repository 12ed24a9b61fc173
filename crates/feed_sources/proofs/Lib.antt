pub mod Members
pub mod Axes
pub mod AboveFacts
pub mod SourceFacts
pub mod FeederFacts
pub mod SpanFacts
pub mod BelowFacts
mod DigitFacts
mod JumpFacts
mod KeptFacts
mod ChoiceFacts
mod FedParts
mod WalkFacts
mod BackFacts
mod StepFacts
