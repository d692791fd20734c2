pub mod Answers
pub mod Lists
pub mod Inner
pub mod Worked
