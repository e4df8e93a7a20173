pub mod Closing
pub mod Step
pub mod Attempt
pub mod Shorten
