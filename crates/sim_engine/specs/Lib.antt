pub mod Steps
pub mod Columns
pub mod Orders
pub mod Walks
pub mod Running
pub mod Reached
pub mod Ranks
pub mod Engines
