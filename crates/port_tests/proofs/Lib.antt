pub mod Leaving
pub mod Trying
