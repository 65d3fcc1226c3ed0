pub mod Answer
pub mod Answered
pub mod Args
pub mod Durations
pub mod Fields
pub mod Floats
pub mod Numbers
pub mod Page
