pub mod Inside
pub mod Shares
pub mod Spread
