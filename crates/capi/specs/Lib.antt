pub mod Answer
pub mod Point
pub mod Trace
pub mod Check
pub mod Crossing
pub mod Explain
pub mod File
