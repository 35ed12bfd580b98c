pub mod Shrinkers
pub mod Between
