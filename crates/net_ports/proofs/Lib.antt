pub mod Formed
pub mod Told
pub mod RowSteps
pub mod Differing
