pub mod RangeLaws
pub mod SweptLaws
pub mod SameAnswers
