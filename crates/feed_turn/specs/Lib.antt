pub mod Leaves
pub mod Named
pub mod Inverse
pub mod Shift
pub mod Turning
pub mod Views
pub mod Known
pub mod Inside
