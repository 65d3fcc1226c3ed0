pub mod Hex
pub mod Write
