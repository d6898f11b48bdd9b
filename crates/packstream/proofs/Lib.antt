pub mod Here
pub mod Headers
pub mod RoundTrip
pub mod Ends
pub mod Forms
pub mod Shortest
pub mod Sound
