pub mod EndLaws
pub mod Witnesses
