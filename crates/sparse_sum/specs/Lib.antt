pub mod Inside
pub mod Live
pub mod Totals
pub mod Walking
