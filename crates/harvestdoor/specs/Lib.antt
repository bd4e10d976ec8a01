pub mod States
pub mod Reading
pub mod Inside
pub mod Asking
pub mod Heads
