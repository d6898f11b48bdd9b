pub mod Leaves
pub mod KeySearch
pub mod Steps
pub mod Places
pub mod Passing
pub mod Embedding
pub mod Placement
pub mod Answers
