pub mod Disjointness
pub mod Rows
pub mod Order
pub mod Stars
pub mod Refusals
pub mod Solved
mod Passed
