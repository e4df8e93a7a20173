pub mod Reduction
pub mod Near
