pub mod Refusal
pub mod Verdict
