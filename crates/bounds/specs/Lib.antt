pub mod Compared
pub mod Radius
pub mod Sharp
