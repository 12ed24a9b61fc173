pub mod Sample
pub mod Summary
