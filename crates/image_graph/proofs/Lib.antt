pub mod Opening
pub mod Pieces
pub mod States
