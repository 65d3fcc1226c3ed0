pub mod Progress
pub mod Turning
pub mod Whole
