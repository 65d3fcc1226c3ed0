pub mod Before
pub mod Interpolated
pub mod Monotone
pub mod Sphere
pub mod Table
pub mod Together
