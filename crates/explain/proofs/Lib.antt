pub mod Asked
pub mod Dots
