pub mod Counted
pub mod CutOut
pub mod Places
