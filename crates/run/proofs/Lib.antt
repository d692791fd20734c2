pub mod StopLaws
pub mod WalkingLaws
pub mod CourseLaws
pub mod OverLaws
pub mod RunLaws
pub mod Tied
pub mod Witnesses
pub mod SameAnswers
