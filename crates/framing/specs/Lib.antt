pub mod Framing
pub mod Telling
pub mod Stream
pub mod Inside
