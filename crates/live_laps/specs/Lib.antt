pub mod Notes
pub mod Lines
pub mod Laps
pub mod Sums
pub mod Tallies
pub mod SumLaws
