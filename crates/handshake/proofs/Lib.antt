pub mod Proposals
pub mod Choosing
pub mod Echo
