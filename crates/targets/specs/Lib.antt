pub mod Slots
pub mod Asking
