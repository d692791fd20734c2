pub mod Allowed
pub mod Curves
pub mod Steps
pub mod Faults
pub mod Empty
pub mod Announced
pub mod Inner
