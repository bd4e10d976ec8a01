pub mod Fields
pub mod Heard
pub mod Going
