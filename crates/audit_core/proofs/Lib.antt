pub mod Behind
pub mod Marked
