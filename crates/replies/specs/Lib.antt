pub mod Awaited
pub mod Reading
pub mod Saying
pub mod Exactly
