pub mod Report
pub mod Eating
pub mod Pieces
pub mod Inside
