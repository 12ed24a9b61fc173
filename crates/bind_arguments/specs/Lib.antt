pub mod Written
pub mod Family
pub mod Bound
pub mod Argument
pub mod Numbers
pub mod Maps
pub mod Inside
