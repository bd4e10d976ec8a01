pub mod Bands
pub mod Word
