pub mod Sides
pub mod Gates
pub mod Built
pub mod Standing
