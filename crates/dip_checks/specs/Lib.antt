pub mod Edges
pub mod Ports
pub mod Checks
pub mod Apart
