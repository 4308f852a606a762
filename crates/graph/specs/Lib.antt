pub mod Meanings
pub mod Answers
pub mod Buffers
