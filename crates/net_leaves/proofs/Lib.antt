pub mod Later
pub mod Opened
pub mod Between
