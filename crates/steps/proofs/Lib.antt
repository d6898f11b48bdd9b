pub mod Calls
pub mod Leaving
pub mod Outcomes
pub mod Removing
