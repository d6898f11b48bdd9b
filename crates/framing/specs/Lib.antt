pub mod Feed
pub mod Reading
pub mod Chunking
pub mod RoundTrip
pub mod Places
pub mod Cases
pub mod Private
