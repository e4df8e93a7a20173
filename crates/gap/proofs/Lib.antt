pub mod Chain
pub mod Gap
