-- What the code goes over.
pub mod Spine
pub mod Separated
