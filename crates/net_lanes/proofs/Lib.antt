pub mod Cut
pub mod Placed
pub mod Tabled
pub mod Begins
pub mod Counted
pub mod Masked
