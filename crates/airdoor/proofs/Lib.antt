pub mod Modes
pub mod Behind
pub mod Messages
