pub mod Kind
pub mod Surface
