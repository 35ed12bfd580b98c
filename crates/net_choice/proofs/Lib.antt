pub mod Paired
pub mod Switched
pub mod Chained
pub mod InTurn
