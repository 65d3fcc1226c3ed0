pub mod Duration
pub mod Table
pub mod Numbers
