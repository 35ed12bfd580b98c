pub mod Sides
pub mod Puts
