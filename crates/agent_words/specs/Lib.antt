pub mod Options
pub mod Built
pub mod Orders
pub mod Asking
pub mod Answers
