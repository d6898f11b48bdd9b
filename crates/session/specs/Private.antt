pub mod Receiving
pub mod Replies
