pub mod Hearing
pub mod Inside
