pub mod Later
pub mod Fronts
pub mod Reopened
pub mod Found
pub mod Closed
