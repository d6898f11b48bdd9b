pub mod Demand3
pub mod Following
pub mod Line
