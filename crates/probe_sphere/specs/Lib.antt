pub mod Answer
pub mod GreatCircles
pub mod Sphere
