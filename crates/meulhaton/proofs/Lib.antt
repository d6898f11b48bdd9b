pub mod Crossing
pub mod Replying
