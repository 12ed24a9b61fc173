pub mod Version
pub mod UserRun
pub mod ByPlace
pub mod LegalHistory
pub mod Laws
