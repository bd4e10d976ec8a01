pub mod Parts
pub mod Setting
pub mod Says
