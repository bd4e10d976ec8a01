pub mod Turns
pub mod Cuts
