pub mod Bools
pub mod Counting
pub mod Invariant
pub mod Lists
pub mod Rows
pub mod Standing
pub mod Stopped
pub mod Turns
