pub mod Deeds
pub mod DeedLaws
pub mod Gates
pub mod Kept
pub mod Lines
pub mod Runs
pub mod Turns
