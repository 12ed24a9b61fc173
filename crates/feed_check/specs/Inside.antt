pub mod Leaves
pub mod References
