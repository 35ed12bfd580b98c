pub mod Acting
pub mod Crossed
pub mod Sided
