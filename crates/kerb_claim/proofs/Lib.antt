pub mod ContactLaws
pub mod StepLaws
pub mod Following
pub mod CallsMade
pub mod FirstLaws
pub mod Rows
