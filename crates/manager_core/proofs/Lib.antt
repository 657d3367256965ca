pub mod Fronts
pub mod Tries
pub mod Sizes
pub mod Walked
pub mod Written
