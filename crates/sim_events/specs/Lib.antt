pub mod Passing
pub mod Reading
pub mod Network
pub mod Setups
pub mod Laws
pub mod Worked
