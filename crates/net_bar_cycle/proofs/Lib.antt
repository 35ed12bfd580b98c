pub mod Passing
pub mod Side
pub mod Crossed
pub mod Channels
pub mod Steps
pub mod AtBar
