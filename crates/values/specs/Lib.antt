pub mod Decode
pub mod Private
pub mod Reading
pub mod Places
pub mod Walk
