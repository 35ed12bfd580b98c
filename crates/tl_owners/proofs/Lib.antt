pub mod Members
pub mod SoundLeaves
pub mod Upward
pub mod Outputs
