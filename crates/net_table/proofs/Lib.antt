pub mod Indexed
pub mod Opened
