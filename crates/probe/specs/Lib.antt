pub mod Probe
pub mod Call
pub mod Surface
pub mod Steps
pub mod Stretch
