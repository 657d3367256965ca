pub mod Communities
pub mod Faults
pub mod Orders
