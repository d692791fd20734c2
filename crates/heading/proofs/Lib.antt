pub mod Angle
pub mod Rotation
pub mod Arc
pub mod Steering
pub mod PathAnswers
pub mod Witnesses
pub mod Rows
