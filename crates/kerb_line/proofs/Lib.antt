pub mod KerbLaws
pub mod LowestLaws
pub mod BoundsLaws
pub mod AlongLaws
pub mod Witnesses
