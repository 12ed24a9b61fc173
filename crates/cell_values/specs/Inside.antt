-- How values are worked out. No public clause cites it.
pub mod Sound
pub mod Origins
pub mod Questions
pub mod Sums
pub mod Frames
pub mod Answers
pub mod Growth
