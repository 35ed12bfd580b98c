pub mod Offering
pub mod Sights
pub mod Networks
pub mod Composed
pub mod Fitting
pub mod Again
pub mod Legal
