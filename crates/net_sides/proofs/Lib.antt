pub mod Acted
pub mod Answered
pub mod Asked
pub mod Meant
pub mod Parts
pub mod Replaced
pub mod Rows
pub mod Told
