-- What the code keeps while it works. No public clause cites it.
pub mod Lines
pub mod Text
pub mod Tables
pub mod Grids
