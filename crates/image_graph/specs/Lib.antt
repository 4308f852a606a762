pub mod Parts
pub mod Held
pub mod Images
pub mod Bounded
pub mod Spelling
pub mod Inner
