pub mod Runs
pub mod TopBits
pub mod Sequences
pub mod Utf8
pub mod Encoding
