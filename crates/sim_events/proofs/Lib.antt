pub mod Read
pub mod Passed
pub mod Agreed
