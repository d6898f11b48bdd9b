pub mod Wire
pub mod Claim
