pub mod Patch
pub mod Located
pub mod Pair
