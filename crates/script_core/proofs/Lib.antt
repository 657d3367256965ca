pub mod LinesLemmas
pub mod RunsLemmas
pub mod WordsLemmas
