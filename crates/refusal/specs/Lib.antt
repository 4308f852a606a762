pub mod Reasons
pub mod Rules
pub mod Texts
