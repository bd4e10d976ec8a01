pub mod Lines
pub mod Reaching
pub mod Pieces
pub mod Inputs
