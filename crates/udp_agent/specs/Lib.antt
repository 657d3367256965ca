pub mod Binding
pub mod Lasting
pub mod Serving
pub mod Setups
