pub mod Hexadecimal
pub mod Plans
pub mod Happenings
pub mod Lines
pub mod Noting
