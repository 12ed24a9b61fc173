pub mod CubeLines
pub mod QuotedNames
pub mod Lists
pub mod Maps
pub mod Writing
