pub mod Head
pub mod Moving
pub mod Inside
pub mod Examples
