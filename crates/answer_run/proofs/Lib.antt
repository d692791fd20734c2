pub mod EntryLaws
pub mod AnswerLaws
pub mod BareLaws
pub mod Witnesses
