pub mod Predict
pub mod Leaving
