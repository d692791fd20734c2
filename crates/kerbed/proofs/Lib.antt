pub mod KerbedLaws
pub mod SurveyLaws
pub mod SameAnswers
