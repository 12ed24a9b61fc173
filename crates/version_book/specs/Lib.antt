pub mod Numbers
pub mod Lists
pub mod Passes
pub mod Commits
pub mod Inside
