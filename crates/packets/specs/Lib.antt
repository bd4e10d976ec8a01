pub mod Forms
pub mod Inside
pub mod Channels
pub mod Numbers
pub mod Missed
pub mod Samples
pub mod Rounding
