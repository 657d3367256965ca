pub mod Failing
pub mod Recording
pub mod Running
pub mod Ticking
pub mod Turning
pub mod Visiting
