pub mod Range
pub mod Rounding
pub mod Arithmetic
pub mod Division
pub mod Places
pub mod Laws
pub mod Text
pub mod Total
