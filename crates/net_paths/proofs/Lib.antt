pub mod Prefixed
pub mod Owned
