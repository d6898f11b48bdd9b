pub mod Viewed
pub mod Before
pub mod Renumbering
pub mod Places
pub mod Fields
pub mod Roots
