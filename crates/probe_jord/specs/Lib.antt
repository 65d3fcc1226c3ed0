pub mod Answer
pub mod Mat33
pub mod Positions
pub mod Units
pub mod Vec3
