pub mod Printed
pub mod Forms
pub mod Entries
pub mod Worked
pub mod Inner
