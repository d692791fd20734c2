pub mod ReadLaws
pub mod PartLaws
pub mod FirstLaws
pub mod AnswerLaws
pub mod CurveLaws
pub mod PlaceLaws
pub mod Rows
