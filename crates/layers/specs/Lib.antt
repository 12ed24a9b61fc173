pub mod Layered
pub mod Laws
