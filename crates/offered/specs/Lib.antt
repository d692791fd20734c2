pub mod Answers
pub mod Offered
pub mod Ranges
pub mod Claims
