pub mod Values
pub mod Knowledge
pub mod Seats
pub mod HeldValues
pub mod Shared
pub mod Inside
