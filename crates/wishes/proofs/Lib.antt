pub mod Rows
pub mod Open
pub mod Allowed
pub mod Understood
pub mod Answers
