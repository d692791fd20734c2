pub mod Filling
pub mod EndLaws
pub mod TableLaws
pub mod CornerLaws
pub mod PointLaws
pub mod SoundRig
pub mod Witnesses
pub mod Rows
