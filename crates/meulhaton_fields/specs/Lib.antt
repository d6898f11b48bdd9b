pub mod Requests
pub mod Values
