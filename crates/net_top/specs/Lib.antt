pub mod Laying
pub mod Whole
pub mod WholeLaw
pub mod Runs
pub mod LegalBeats
