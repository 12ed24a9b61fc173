-- What the code keeps. No public clause cites it.
pub mod Maps
pub mod Tables
