pub mod Acting
pub mod Passed
