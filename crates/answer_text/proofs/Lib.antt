pub mod LineLaws
pub mod AnswerLaws
pub mod Rows
pub mod Witnesses
