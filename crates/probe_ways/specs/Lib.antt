pub mod Answer
pub mod Mean
pub mod Ways
