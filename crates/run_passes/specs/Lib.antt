pub mod RefusalOrder
pub mod Laws
pub mod Inside
