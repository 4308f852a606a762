pub mod Names
pub mod Gathering
pub mod Spelling
