pub mod Chains
pub mod Halves
pub mod Lines
pub mod Rows
pub mod Passing
pub mod Promised
pub mod Filed
