pub mod Later
pub mod Gated
