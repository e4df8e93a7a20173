pub mod Listed
pub mod Counted
pub mod Searching
pub mod Explained
pub mod Computing
pub mod Wreck
