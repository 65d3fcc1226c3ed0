pub mod Pieces
pub mod Room
pub mod Spans
pub mod Turns
pub mod Feeds
