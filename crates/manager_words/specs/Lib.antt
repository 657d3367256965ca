pub mod Options
pub mod Built
pub mod Bindings
pub mod Requests
pub mod Runs
