pub mod Answering
pub mod Counts
pub mod Crossing
pub mod Gathering
pub mod Lining
