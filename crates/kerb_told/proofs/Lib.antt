pub mod BareLaws
pub mod Rows
pub mod Witnesses
