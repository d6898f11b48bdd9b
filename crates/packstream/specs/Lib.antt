pub mod RoundTrip
pub mod Shortest
pub mod Sound
pub mod Cases
