pub mod Buildable
pub mod Netlists
