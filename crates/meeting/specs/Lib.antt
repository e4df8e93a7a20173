pub mod Correction
pub mod Newton
pub mod Intersection
