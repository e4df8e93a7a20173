pub mod Answer
pub mod Line
