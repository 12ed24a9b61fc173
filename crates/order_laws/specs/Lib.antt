pub mod Greatest
pub mod Scales
pub mod Earlier
pub mod Excess
