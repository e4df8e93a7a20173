pub mod Numbers
pub mod Header
pub mod Fitness
pub mod Back
pub mod Evaluated
