pub mod OfferedLaws
pub mod SameAnswers
