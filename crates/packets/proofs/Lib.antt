pub mod Forms
pub mod Channels
pub mod Numbers
pub mod Missed
pub mod Quotients
pub mod Narrowed
pub mod Rounding
pub mod Leaning
