pub mod Line
pub mod Lent
pub mod Trace
