pub mod Checks
pub mod Requests
pub mod Places
pub mod Before
pub mod Renumbering
pub mod Cases
pub mod Private
