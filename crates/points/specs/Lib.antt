pub mod Ends
pub mod Corners
pub mod Points
pub mod Requires
pub mod Worked
