pub mod Places
pub mod Sent
pub mod Whole
pub mod Faults
