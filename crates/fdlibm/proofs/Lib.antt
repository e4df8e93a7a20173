pub mod Examples
pub mod Laws
pub mod Finite
pub mod Infinite
