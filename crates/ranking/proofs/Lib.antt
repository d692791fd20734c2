pub mod EnterLaws
pub mod OrderLaws
pub mod RankLaws
pub mod SameAnswers
