pub mod Reads
pub mod Kinds
pub mod Scaled
pub mod Known
pub mod Areas
pub mod Counted
pub mod FirstReference
