-- What the code keeps. No public clause cites it.
pub mod Grouped
pub mod Shared
pub mod Linked
