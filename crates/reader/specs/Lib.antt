pub mod Answers
pub mod Reading
pub mod Inside
pub mod Lost
