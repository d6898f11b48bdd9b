pub mod Lines
pub mod Feeding
pub mod Passing
pub mod Whole
