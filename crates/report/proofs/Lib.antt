pub mod Left
pub mod Lines
