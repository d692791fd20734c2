pub mod ByteLaws
pub mod SignLaws
pub mod Fields
pub mod SizeLaws
pub mod Ticks
pub mod Whole
pub mod Rows
pub mod Witnesses
