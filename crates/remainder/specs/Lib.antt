pub mod Machine
pub mod Tables
pub mod Kernel
pub mod Large
