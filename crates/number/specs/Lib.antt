pub mod Operators
pub mod Helpers
pub mod Units
pub mod Words
