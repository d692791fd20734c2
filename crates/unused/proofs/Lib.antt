pub mod SameJobs
pub mod Bodies
pub mod SameRigs
pub mod SamePoints
pub mod SameWalks
pub mod Examples
pub mod Kept
