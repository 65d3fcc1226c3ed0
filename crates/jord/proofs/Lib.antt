pub mod Compare
pub mod Antipodes
