pub mod Back
pub mod Write
