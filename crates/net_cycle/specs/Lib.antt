pub mod Flows
pub mod Ends
pub mod Parts
pub mod Laws
