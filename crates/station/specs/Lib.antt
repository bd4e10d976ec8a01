pub mod Station
pub mod Feeding
pub mod Serving
pub mod Inside
pub mod Talking
