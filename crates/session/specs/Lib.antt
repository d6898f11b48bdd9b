pub mod Text
pub mod Receiving
pub mod Session
pub mod KeepAlive
pub mod Room
pub mod Cases
pub mod CasesStarred
pub mod Private
