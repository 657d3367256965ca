pub mod Keys
pub mod Reading
pub mod Typed
pub mod Policies
pub mod Stated
pub mod Texts
