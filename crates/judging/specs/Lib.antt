pub mod Inside
pub mod Says
