pub mod Single
pub mod Texts
pub mod FirstReferences
pub mod Models
pub mod Ranked
pub mod Deployments
