pub mod Sides
pub mod Signs
