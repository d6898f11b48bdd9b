pub mod InPlace
pub mod Lent
pub mod Lending
pub mod LendingTwo
pub mod Passing
