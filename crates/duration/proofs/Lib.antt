pub mod Questions
pub mod Rounding
pub mod Places
pub mod Order
pub mod Range
pub mod Laws
