pub mod Counts
pub mod Bytes
pub mod NamedBytes
pub mod Failing
pub mod Extents
pub mod Seen
