pub mod Keys
pub mod Placement
pub mod Embedding
pub mod Steps
