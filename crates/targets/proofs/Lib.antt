pub mod Arrays
pub mod Spots
pub mod Slots
pub mod Picks
pub mod Made
