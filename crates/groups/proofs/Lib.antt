pub mod Groups
pub mod Rows
pub mod Items
pub mod Closings
