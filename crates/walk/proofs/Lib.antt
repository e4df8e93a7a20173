pub mod Calls
pub mod Halves
pub mod Joining
pub mod Lines
pub mod Lists
pub mod Reversal
pub mod Rows
pub mod Unmet
