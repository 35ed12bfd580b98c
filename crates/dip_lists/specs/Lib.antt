pub mod First
pub mod FirstLaw
pub mod PlacesLaw
pub mod Refilled
