pub mod FedCells
