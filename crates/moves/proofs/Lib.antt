pub mod Pieces
pub mod Firsts
pub mod Counts
