pub mod LookLaws
pub mod RangeLaws
pub mod Witnesses
pub mod Rows
pub mod SameAnswers
