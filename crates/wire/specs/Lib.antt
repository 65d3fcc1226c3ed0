pub mod Frame
pub mod Kind
pub mod Known
pub mod Reply
pub mod Table
