pub mod Breaking
pub mod Chunks
pub mod Exits
pub mod Keeping
pub mod Pairs
pub mod Reading
