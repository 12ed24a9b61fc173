pub mod Sandboxes
pub mod InTurn
pub mod Laws
