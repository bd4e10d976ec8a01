pub mod States
pub mod Feeding
pub mod Cutting
