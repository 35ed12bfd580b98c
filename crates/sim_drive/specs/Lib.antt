pub mod Preparing
pub mod Setting
pub mod Opening
pub mod Totals
pub mod Runs
