pub mod Calls
pub mod Pieces
pub mod Inputs
pub mod Reaching
