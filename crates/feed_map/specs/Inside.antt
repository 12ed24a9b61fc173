-- What the code keeps. No public clause cites it.
pub mod Gains
pub mod Leaves
pub mod Follows
pub mod Risks
