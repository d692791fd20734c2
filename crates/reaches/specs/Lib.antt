pub mod Cells
pub mod Crossing
pub mod Widest
pub mod Inner
pub mod Far
pub mod Lent
