pub mod Durations
