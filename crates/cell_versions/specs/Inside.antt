-- What the code keeps. No public clause cites it.
pub mod Changes
pub mod Faults
