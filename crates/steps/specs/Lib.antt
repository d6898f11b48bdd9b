pub mod Opening
pub mod Steps
pub mod Private
