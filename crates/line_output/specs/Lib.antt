pub mod Lost
pub mod Pending
pub mod Steps
pub mod Waiting
