pub mod Feeding
pub mod Scanning
pub mod Copying
pub mod Chunking
pub mod RoundTrip
pub mod Places
pub mod Fitting
pub mod Rooms
