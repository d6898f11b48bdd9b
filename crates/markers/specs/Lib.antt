pub mod Value
pub mod ByKind
pub mod Marker
pub mod Extents
pub mod Private
pub mod Cases
