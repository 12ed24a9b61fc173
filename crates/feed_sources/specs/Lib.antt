pub mod Feeders
pub mod Inside
pub mod Sources
pub mod Spans
