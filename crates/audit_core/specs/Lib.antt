pub mod Denials
pub mod Keys
pub mod Marks
pub mod Text
pub mod Unrestored
