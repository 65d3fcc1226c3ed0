pub mod Numbers
pub mod Angle
pub mod Length
pub mod Speed
pub mod Positions
pub mod Vehicle
pub mod Table
