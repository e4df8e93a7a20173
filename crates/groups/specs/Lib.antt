pub mod Groups
pub mod Row
pub mod Traced
