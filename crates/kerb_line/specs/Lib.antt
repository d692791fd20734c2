pub mod Kerb
pub mod Contact
pub mod Requires
pub mod Inner
pub mod Lent
