pub mod Found
pub mod Members
pub mod NumberedFacts
pub mod Places
pub mod Point
pub mod Rising
pub mod Stable
