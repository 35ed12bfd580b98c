pub mod Slots
pub mod SlotWires
