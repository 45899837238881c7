pub mod GoodRows
mod WrittenLemmas
mod ListLemmas
mod DiagnosisLemmas
mod InputLemmas
pub mod StatusLemmas
pub mod StreamLemmas
pub mod SurveyLemmas
pub mod CheckLemmas
pub mod NoticesLemmas
pub mod OfFiles
pub mod RunLemmas
pub mod SearchLemmas
pub mod UnusedLemmas
