pub mod FedCells
pub mod Inside
