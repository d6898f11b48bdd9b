pub mod Serving
pub mod Idle
