pub mod SquareRoot
pub mod Sqrt
pub mod Nearest
