pub mod Kernel
pub mod Sine
