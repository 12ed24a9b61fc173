pub mod Output
pub mod Status
pub mod Sample
pub mod Answer
pub mod Known
pub mod Laws
pub mod Inside
