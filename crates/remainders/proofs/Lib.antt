pub mod Modulo
pub mod Fmod
