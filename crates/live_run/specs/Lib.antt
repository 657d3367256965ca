pub mod Agreeing
pub mod Crews
pub mod Reports
pub mod Served
pub mod Shared
