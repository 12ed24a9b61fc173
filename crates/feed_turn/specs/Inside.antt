-- What the code keeps. No public clause cites it.
pub mod Slots
