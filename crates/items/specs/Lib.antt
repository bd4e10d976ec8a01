pub mod Settings
pub mod Header
pub mod Items
pub mod Table
pub mod Answer
pub mod Touching
pub mod EitherOrder
