pub mod Words
pub mod Files
pub mod Answers
pub mod Explained
