pub mod Firsts
pub mod FirstFailures
pub mod Pairs
pub mod Places
pub mod Tests
