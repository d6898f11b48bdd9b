pub mod Choices
pub mod Replying
