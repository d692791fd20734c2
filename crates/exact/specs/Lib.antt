pub mod Size
pub mod Nearest
