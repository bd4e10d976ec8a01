pub mod Wishes
pub mod Writing
