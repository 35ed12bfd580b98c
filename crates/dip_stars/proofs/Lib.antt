pub mod Turns
pub mod Follow
pub mod Few
mod Numbered
pub mod Sums
