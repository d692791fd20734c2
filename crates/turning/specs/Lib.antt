pub mod Calls
pub mod Settings
pub mod Kerbs
pub mod Claims
