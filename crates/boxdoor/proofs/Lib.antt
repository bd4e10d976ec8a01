pub mod Parts
pub mod Fields
pub mod Lent
pub mod Fed
pub mod CutOver
pub mod Round
