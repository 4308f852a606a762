pub mod Bytes
pub mod Kinds
pub mod Images
pub mod Opened
pub mod Inner
