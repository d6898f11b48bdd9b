pub mod Peeking
pub mod Naming
pub mod Viewing
pub mod Walking
pub mod Trees
pub mod Extras
pub mod Lookups
