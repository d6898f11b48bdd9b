pub mod BigEndian
pub mod TwosComplement
pub mod Access
pub mod I64
pub mod RoundTrip
