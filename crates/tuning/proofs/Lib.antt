pub mod Covered
pub mod Words
