pub mod Turns
pub mod Tangent
