pub mod Replenishment
