pub mod Outside
pub mod Counting
pub mod InMemory
