pub mod Worked
pub mod Record
pub mod Answers
pub mod Inner
