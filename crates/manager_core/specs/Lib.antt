pub mod Replies
pub mod Asks
pub mod Walks
pub mod Lines
pub mod Runs
