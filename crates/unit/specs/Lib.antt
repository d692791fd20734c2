pub mod Turn
pub mod Products
pub mod Coupling
pub mod Construction
