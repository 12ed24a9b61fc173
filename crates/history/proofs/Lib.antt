pub mod Lists
pub mod Runs
pub mod Histories
pub mod ByPlaces
pub mod OneUser
