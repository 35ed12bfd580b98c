pub mod Built
pub mod Values
pub mod Sound
pub mod Numbering
pub mod Folds
pub mod Registers
pub mod Bits
pub mod Columns
