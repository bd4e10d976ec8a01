pub mod Heading
pub mod Shapes
pub mod Measures
pub mod Inside
