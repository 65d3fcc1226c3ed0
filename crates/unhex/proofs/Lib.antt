pub mod Fold
pub mod Read
