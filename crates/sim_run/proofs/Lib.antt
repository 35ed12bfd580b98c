pub mod Fitting
pub mod Heard
pub mod Running
pub mod Offered
pub mod Told
pub mod Cycled
pub mod Texts
