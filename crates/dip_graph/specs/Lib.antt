pub mod Faults
pub mod Kinds
pub mod Orders
pub mod Edges
pub mod Limits
pub mod WellStated
