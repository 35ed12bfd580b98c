pub mod Stepped
pub mod AfterGrants
pub mod OpenedSides
pub mod Stood
pub mod Serves
pub mod Machined
pub mod Gated
