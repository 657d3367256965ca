pub mod Short
pub mod Indexes
