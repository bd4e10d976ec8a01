pub mod Codes
pub mod Fields
pub mod Joined
pub mod Refusals
pub mod RoundTrip
pub mod Taken
pub mod Written
