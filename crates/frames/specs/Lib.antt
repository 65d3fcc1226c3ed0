pub mod Whole
pub mod Line
pub mod Stream
pub mod Turn
pub mod Table
