pub mod Names
pub mod Ring
pub mod Record
pub mod Calls
pub mod Private
