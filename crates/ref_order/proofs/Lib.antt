mod Likeness
mod Scaled
mod KindFacts
mod NumberFacts
pub mod Axes
pub mod Args
pub mod Sums
pub mod Weighing
