pub mod Lag
pub mod ReadKind
pub mod Made
pub mod Fitting
pub mod Named
pub mod Children
