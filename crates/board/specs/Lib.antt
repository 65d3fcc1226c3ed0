pub mod Change
pub mod Glance
