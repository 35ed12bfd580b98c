pub mod Rounds
pub mod Edges
pub mod Follows
pub mod Filled
