pub mod Geometry
pub mod Ticks
pub mod Answers
pub mod Inner
pub mod Claims
pub mod Worked
