pub mod Layout
pub mod Marks
pub mod File
