pub mod Captures
pub mod Losses
pub mod Demand
pub mod Lost
pub mod Wrong
