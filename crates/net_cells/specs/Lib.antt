pub mod Rules
pub mod Values
pub mod Loops
pub mod NameTables
