pub mod Recognised
pub mod Values
pub mod Rests
pub mod Answers
pub mod Around
pub mod Exactly
