pub mod Packets
pub mod Sending
