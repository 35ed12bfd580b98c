pub mod PortRows
pub mod Showing
pub mod Steps
