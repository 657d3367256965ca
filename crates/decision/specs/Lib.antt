pub mod Keys
pub mod Deciding
