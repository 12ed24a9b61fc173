pub mod Languages
pub mod Operators
pub mod Levels
pub mod Parts
pub mod Comparing
pub mod OneNesting
pub mod ExpressionExact
pub mod PrintedTokens
pub mod PrintedLimits
pub mod PrintedLevels
pub mod PrintedExpressions
mod OperatorComes
mod Pairs
mod Folding
pub mod LookaheadExact
pub mod WordsExact
pub mod TokenKinds
