pub mod Arctangent
