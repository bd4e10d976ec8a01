pub mod Heard
pub mod Stops
pub mod Reaches
pub mod WholePackets
pub mod Goings
pub mod Ranges
pub mod Answers
