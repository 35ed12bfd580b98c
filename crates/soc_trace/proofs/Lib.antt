pub mod Prints
pub mod Going
