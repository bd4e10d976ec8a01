pub mod Steps
pub mod Boxes
pub mod Readings
pub mod Demand
pub mod Lost
pub mod Exist
pub mod Wrong
pub mod Sharp
