pub mod Tangent
