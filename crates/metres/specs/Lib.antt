pub mod Bytes
pub mod Answers
pub mod Tick
pub mod Worked
