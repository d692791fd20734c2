pub mod BareLaws
pub mod Witnesses
