pub mod Turning
pub mod Laned
