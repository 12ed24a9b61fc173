pub mod Variables
pub mod Binding
pub mod Numbers
