pub mod Point
pub mod Frame
pub mod Vector
pub mod Tolerance
