pub mod Wrapping
pub mod Chains
