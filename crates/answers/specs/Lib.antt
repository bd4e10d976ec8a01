pub mod Replies
pub mod Inside
