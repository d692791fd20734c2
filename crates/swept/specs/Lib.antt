pub mod Answers
pub mod Swept
pub mod Ranges
pub mod Claims
