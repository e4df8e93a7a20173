pub mod Solve
pub mod Cramer
