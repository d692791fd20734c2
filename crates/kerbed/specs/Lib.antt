pub mod Answers
pub mod Kerbed
pub mod Ranges
pub mod Inner
pub mod Claims
