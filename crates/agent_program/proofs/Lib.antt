pub mod FileLemmas
pub mod FrontLemmas
pub mod OpeningLemmas
pub mod ReadLemmas
pub mod ReportingLemmas
pub mod TakenLemmas
