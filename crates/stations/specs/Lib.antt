pub mod Placing
pub mod Stepping
pub mod Inner
