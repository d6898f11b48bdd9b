pub mod BigEndian
pub mod TwosComplement
pub mod Access
pub mod RoundTrip
