pub mod Counting
pub mod Naming
pub mod StatedKinds
pub mod WellStated
pub mod Order
