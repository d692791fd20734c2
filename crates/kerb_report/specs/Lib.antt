pub mod Answers
pub mod Report
pub mod Ranges
pub mod Looking
pub mod Requires
