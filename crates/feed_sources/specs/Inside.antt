-- What the code keeps. No public clause cites it.
pub mod Above
pub mod Choices
pub mod Tables
