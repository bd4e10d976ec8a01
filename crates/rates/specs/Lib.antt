pub mod Rate
pub mod Entries
pub mod Table
