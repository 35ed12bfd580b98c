pub mod Ranges
pub mod Always
pub mod FirstFree
pub mod Counted
pub mod Cycles
pub mod OpenedSlots
