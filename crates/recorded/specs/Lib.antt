pub mod Words
pub mod Tally
