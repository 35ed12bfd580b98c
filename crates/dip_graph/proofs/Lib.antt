pub mod Finding
pub mod Turns
pub mod Behind
pub mod Bound
pub mod Complete
pub mod Unlike
pub mod Least
