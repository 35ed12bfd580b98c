pub mod Fields
pub mod Ports
pub mod Implementing
pub mod Names
pub mod Rows
