-- The readers of expressions, in the shape of the code.
pub mod Reading
pub mod Nests
pub mod Lookahead
