pub mod Hex
pub mod RoundTrip
pub mod Cases
