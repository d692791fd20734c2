pub mod Walking
pub mod Stops
pub mod Ran
pub mod Run
pub mod Worked
