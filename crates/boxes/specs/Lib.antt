pub mod Bounds
pub mod Segment
pub mod Crosses
pub mod Crossing
pub mod Counts
pub mod Explain
pub mod Reasons
