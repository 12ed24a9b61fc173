-- What the code keeps while it works. No public clause cites it.
pub mod Names
