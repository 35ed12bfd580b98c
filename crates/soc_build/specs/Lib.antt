pub mod Kinds
pub mod Netlists
