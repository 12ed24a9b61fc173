pub mod Looking
pub mod Covered
