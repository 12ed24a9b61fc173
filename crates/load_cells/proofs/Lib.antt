pub mod PassedLimits
pub mod Texts
pub mod ZeroWrites
