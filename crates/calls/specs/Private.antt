pub mod Conversation
