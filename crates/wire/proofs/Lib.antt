pub mod Lines
pub mod Rests
pub mod Sizes
