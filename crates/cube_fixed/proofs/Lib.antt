pub mod Decimals
pub mod Digits
pub mod Points
pub mod RoundTrip
pub mod Zero
