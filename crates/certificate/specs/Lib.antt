pub mod Passes
pub mod Check
