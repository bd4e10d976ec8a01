pub mod Reading
pub mod Cutting
