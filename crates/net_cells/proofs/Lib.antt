pub mod NameTables
pub mod NewNames
pub mod Nets
pub mod Operators
pub mod Paths
pub mod Cycles
pub mod Runs
