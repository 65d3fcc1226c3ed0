pub mod Trig
pub mod Once
pub mod Degrees
pub mod Table
