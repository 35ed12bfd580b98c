pub mod Limits
pub mod Shape
pub mod Stated
pub mod Reading
pub mod Order
