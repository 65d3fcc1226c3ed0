pub mod Counts
pub mod Thirteen
pub mod Still
pub mod Far
pub mod Separation
pub mod AtRest
pub mod OneAngle
