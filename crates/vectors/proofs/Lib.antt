pub mod PlusZero
pub mod Vectors
pub mod Products
