pub mod Iterations
pub mod Bits
pub mod Evaluated
pub mod Exact
pub mod Index
pub mod Passed
pub mod Claimed
pub mod Finite
