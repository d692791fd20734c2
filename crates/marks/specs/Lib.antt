pub mod Count
pub mod Marks
pub mod Requires
