pub mod WholeRoot
pub mod RoundRoot
pub mod Lifted
pub mod Rooted
pub mod Closest
pub mod Nearest
pub mod RootSign
