pub mod Scaled
