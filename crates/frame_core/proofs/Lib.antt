pub mod Puts
pub mod Same
pub mod Sent
pub mod Bits
pub mod Readings
pub mod Equal
pub mod Compared
