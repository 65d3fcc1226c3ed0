pub mod Side
pub mod Base
pub mod GreatCircle
pub mod MinorArc
pub mod Table
