pub mod Rigs
pub mod Conventions
