pub mod Layout
pub mod File
pub mod Head
pub mod Write
pub mod Read
