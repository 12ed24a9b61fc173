pub mod Snapshots
pub mod Slots
pub mod FedCount
pub mod Limits
pub mod Works
pub mod WritePermission
pub mod StoredBelow
pub mod Inside
