pub mod DecimalLaws
pub mod Writing
pub mod SignedLaws
pub mod ReadingLaws
pub mod Rows
pub mod Witnesses
