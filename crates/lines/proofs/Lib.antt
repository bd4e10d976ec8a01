pub mod Texts
pub mod Dues
pub mod Lengths
pub mod Times
pub mod Answers
