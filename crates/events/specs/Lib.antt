pub mod Lists
pub mod Held
pub mod Images
pub mod Inner
