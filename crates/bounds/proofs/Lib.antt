pub mod Arc
pub mod Norms
pub mod Positions
pub mod Radius
pub mod Distance
pub mod Sharp
pub mod Compared
