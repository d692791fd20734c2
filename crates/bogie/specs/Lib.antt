pub mod Settings
pub mod Fitting
pub mod List
pub mod Walks
pub mod Best
pub mod Worked
