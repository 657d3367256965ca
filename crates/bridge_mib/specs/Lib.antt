pub mod Line
pub mod WritableObject
