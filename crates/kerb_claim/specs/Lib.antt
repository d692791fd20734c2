pub mod FirstTouch
pub mod Worked
