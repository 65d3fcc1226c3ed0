pub mod HalfCircle
pub mod Monotone
pub mod Fraction
pub mod Together
