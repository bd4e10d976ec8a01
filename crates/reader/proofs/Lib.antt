pub mod Reading
pub mod Going
pub mod Steps
pub mod Unpacking
pub mod Sound
pub mod Lost
pub mod Says
