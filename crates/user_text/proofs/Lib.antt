pub mod CellExact
pub mod NewVariables
pub mod SignsExact
pub mod LoadExact
pub mod ViewExact
pub mod SpreadExact
pub mod SandboxExact
pub mod UserExact
pub mod Settled
pub mod Columns
pub mod Parts
pub mod RecordTurns
mod SetParams
