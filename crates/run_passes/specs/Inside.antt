-- The passes that are left behind some of them.
pub mod Plans
