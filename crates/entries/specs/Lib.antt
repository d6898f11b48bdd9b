pub mod Names
pub mod Numbering
pub mod Lookup
pub mod View
pub mod Walk
