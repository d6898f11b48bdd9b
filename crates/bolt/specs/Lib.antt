pub mod Requests
pub mod Ranges
pub mod Limits
