-- What the code keeps while it works. No public clause cites it.
pub mod Chain
pub mod Entering
pub mod Items
pub mod Listed
pub mod Parts
pub mod Place
pub mod Sums
