pub mod Around
pub mod Kept
pub mod Passing
pub mod Planned
pub mod Standing
pub mod TwoBuses
pub mod Whole
