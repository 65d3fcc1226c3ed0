pub mod Bits
pub mod Operators
pub mod Units
