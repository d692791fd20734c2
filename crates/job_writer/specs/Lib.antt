pub mod Write
pub mod Encoding
pub mod Length
pub mod Answers
pub mod Claims
pub mod Inner
