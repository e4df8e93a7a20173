pub mod Computing
pub mod Branches
pub mod Laws
