pub mod Lines
pub mod Timing
pub mod Due
pub mod Inside
