pub mod Shapes
pub mod KeysLaw
pub mod Entries
