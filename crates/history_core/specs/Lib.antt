pub mod Comparing
pub mod Encoded
pub mod Forms
pub mod Happening
pub mod History
pub mod Keeping
pub mod Receipts
pub mod Steps
