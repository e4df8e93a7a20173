pub mod Choice
pub mod Loop
pub mod Any
pub mod First
pub mod Over
