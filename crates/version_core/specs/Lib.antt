pub mod CoreState
pub mod Events
pub mod Acts
pub mod OneHistory
pub mod Laws
pub mod Inside
