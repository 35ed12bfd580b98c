pub mod Offering
pub mod Turning
pub mod Telling
pub mod Standing
pub mod Following
pub mod Buffering
pub mod Cycles
pub mod Texts
