pub mod Causes
pub mod Order
