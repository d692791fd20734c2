pub mod Same
pub mod Witnesses
pub mod Unused
