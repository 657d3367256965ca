pub mod Settled
pub mod Passes
pub mod Tree
pub mod TreeInside
pub mod Runs
pub mod Steps
pub mod Legal
