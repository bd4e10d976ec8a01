pub mod Rules
pub mod Fractions
pub mod Choosing
pub mod Rates
