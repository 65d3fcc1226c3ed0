pub mod Laid
pub mod Coordinates
pub mod Entries
