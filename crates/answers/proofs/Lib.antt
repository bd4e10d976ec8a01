pub mod Values
pub mod Shown
pub mod Room
pub mod Answering
pub mod Says
