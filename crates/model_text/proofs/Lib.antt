pub mod BlockName
pub mod Stopping
pub mod Sound
pub mod Whole
pub mod Gathered
pub mod Heads
mod Later
pub mod PieceExact
pub mod Versions
pub mod ModelExact
pub mod Kept
pub mod SpelledPieces
pub mod Going
pub mod Again
pub mod PrintedBack
pub mod Adding
pub mod WrittenParts
