pub mod Deeds
pub mod DeedLaws
pub mod Sides
pub mod Kept
pub mod Answers
pub mod Turns
pub mod Runs
pub mod Lines
