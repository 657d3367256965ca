pub mod Questions
pub mod Explaining
