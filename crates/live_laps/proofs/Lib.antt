mod Commanding
pub mod IntervalLemmas
mod Noting
mod Summing
mod Traced
