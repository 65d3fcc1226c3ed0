pub mod Session
pub mod Printed
pub mod Quick
