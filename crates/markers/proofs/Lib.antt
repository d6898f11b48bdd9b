pub mod ByKind
pub mod Markers
pub mod Extents
pub mod Offsets
