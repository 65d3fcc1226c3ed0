pub mod Glances
pub mod Changes
