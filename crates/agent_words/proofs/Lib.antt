pub mod Added
pub mod Given
pub mod Refused
pub mod Ruled
pub mod Simple
pub mod Worded
