pub mod Printing
pub mod Traces
