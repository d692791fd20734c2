pub mod Printed
pub mod Settings
pub mod Answers
pub mod Appending
pub mod Inner
pub mod Forms
