pub mod Later
pub mod Naming
pub mod PortSteps
pub mod Heads
