pub mod Octets
pub mod Layout
pub mod Frames
pub mod Sending
pub mod Reading
