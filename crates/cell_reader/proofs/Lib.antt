pub mod Counted
pub mod FedCount
pub mod LastNumbers
pub mod Limits
pub mod RoomFacts
pub mod SlotFacts
pub mod StoredCells
pub mod Works
