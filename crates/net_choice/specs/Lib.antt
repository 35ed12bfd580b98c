pub mod Rows
pub mod Choice
