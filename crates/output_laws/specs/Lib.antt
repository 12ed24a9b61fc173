pub mod SameJob
pub mod Laws
pub mod Same
