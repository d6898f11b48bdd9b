pub mod Keeping
pub mod Numbers
pub mod Opened
pub mod Pass
pub mod Places
pub mod Standing
