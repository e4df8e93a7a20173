pub mod Free
pub mod Symmetric
pub mod Intersection
pub mod Rounds
pub mod Evaluated
