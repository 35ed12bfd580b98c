pub mod Wired
pub mod Stands
pub mod Law
