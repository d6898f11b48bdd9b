pub mod Receiving
pub mod Writing
pub mod Room
pub mod Sending
pub mod Replies
pub mod KeepAlive
