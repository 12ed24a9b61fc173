pub mod References
pub mod FirstLate
pub mod Heights
pub mod Verdict
pub mod Inside
