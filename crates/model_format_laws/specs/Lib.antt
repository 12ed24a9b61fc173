pub mod Binding
pub mod Versions
