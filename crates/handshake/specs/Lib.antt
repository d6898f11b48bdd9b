pub mod Version
pub mod Negotiation
pub mod Echo
pub mod Places
pub mod Cases
