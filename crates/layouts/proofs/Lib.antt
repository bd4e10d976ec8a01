pub mod Sizes
pub mod Writing
pub mod Values
pub mod Around
