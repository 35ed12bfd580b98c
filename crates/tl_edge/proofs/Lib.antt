pub mod Active
pub mod Cuts
pub mod Digits
mod ExampleSound
pub mod Fitting
pub mod Greatest
pub mod Heads
pub mod Holding
pub mod LaneByLane
pub mod Legality
pub mod Once
pub mod Reading
pub mod Spelled
pub mod Ways
pub mod Widths
