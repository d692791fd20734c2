pub mod Read
pub mod Number
pub mod Signed
pub mod Field
pub mod Answers
pub mod Inner
