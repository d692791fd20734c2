pub mod RigLaws
pub mod CallLaws
pub mod PlaceLaws
pub mod StepLaws
pub mod Entering
pub mod Tied
pub mod Witnesses
pub mod SameAnswers
