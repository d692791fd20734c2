pub mod FaultLaws
pub mod FieldLaws
pub mod StepLaws
pub mod AnnouncedLaws
pub mod ClearedLaws
pub mod Wide
pub mod Witnesses
pub mod Arrays
